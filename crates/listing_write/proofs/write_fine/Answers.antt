-- `listing_write::write_fine` meets its contract: an empty part tells the length and takes nothing.
use mathlib.Core.Path.{◌≡◌, sym, ap, ap₂, ◌∙◌}
use mathlib.Core.List.{List, [], ◌++◌}
use native.Mathlib.Nat.{zero-add}
use native.Mathlib.Omega.{arith}
use mathlib.Core.Bool.{Bool}
use lib.ListN.{length, get_or}
use Prim.Native.Nat.{ℕ, ◌<◌}
use Rattle.tree.specs.declared.Profile.{Profile}
use Rattle.table_rules.specs.Keyed.{Passes}
use Rattle.listing_spell.specs.Puts.{Puts}
use Rattle.table_row.specs.Tree.{tree_of}
use Rattle.listing.specs.Writing.{text_of}
use Rattle.table_rules.proofs.Passed.{passed_words, passed-rows, passed-formed}
use Rattle.table_rules.proofs.Small.{small_all}
use Rattle.listing_spell.proofs.Poured.{poured-empty, poured-over}
use Rattle.listing_content.specs.Rows.{text_by_rows}
use Rattle.listing_write.specs.Contract.{fits}
use Rattle.listing_content.proofs.Lines.{listing-text}
use Rattle.listing_write.proofs.Due.{no_room, done, fits-lent}
use Rattle.listing_write.proofs.write_fine.Goals as goal

-- the text row by row is the tree's
same_text : (w : List ℕ) → (p : Profile) × Passes p w → ((i : ℕ) → get_or w i 0 < 4294967296) → text_by_rows w ≡ text_of (tree_of w)
same_text w P below = listing-text w (tree_of w) (passed-formed P.0 w P.1 (small_all w below)).within (passed-rows P.0 w P.1)

module _ (w : List ℕ) {out : List ℕ} {n most : ℕ} (P : Puts [] 0 (text_by_rows w) most n out) where
  nothing : out ≡ []
  nothing = P.holds ∙ poured-empty 0 (text_by_rows w)

  room : (text : List ℕ) {b : Bool} → text_by_rows w ≡ text_of (tree_of w) → b ≡ fits n (length (out ++ text)) → b ≡ fits (length (text_of (tree_of w))) (length text)
  room text same e =
      let long = P.counted ∙ zero-add (length (text_by_rows w)) ∙ ap length same in
      e ∙ ap₂ fits long (ap (λ (o : List ℕ). length (o ++ text)) nothing)

pub put_listing-n-requires : goal.put_listing-n-requires
put_listing-n-requires c = let P = c.requires in passed_words P.0 _ P.1

pub put_listing-requires : goal.put_listing-requires
put_listing-requires c = let P = c.requires in passed_words P.0 _ P.1

pub returns-then-has_room : goal.returns-then-has_room
returns-then-has_room c =
    let a = c.args in
    let s = text_of (tree_of a.table.now) in
    let same = same_text a.table.now c.requires (λ i. omega (arith, c.type_inv.table i)) in
    let yes = sym (room c.args.table.now c.put_listing-n.ensures c.args.text.now same c.has_room.ensures) ∙ c.if-has_room.true in
    let P = rw (nothing c.args.table.now c.put_listing-n.ensures, same) at c.put_listing.ensures in
    rw (P.holds ∙ poured-over a.text.now s (fits-lent (length s) (length a.text.now) yes), P.counted ∙ zero-add (length s))
    (done s a.text.now yes)

pub returns : goal.returns
returns c =
    let same = same_text c.args.table.now c.requires (λ i. omega (arith, c.type_inv.table i)) in
    rw (nothing c.args.table.now c.put_listing-n.ensures)
    (no_room (text_of (tree_of c.args.table.now)) c.args.text.now (sym (room c.args.table.now c.put_listing-n.ensures c.args.text.now same c.has_room.ensures) ∙ c.if-has_room.false))
