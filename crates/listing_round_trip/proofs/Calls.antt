-- The round trip over calls: an accepted table passes and is its tree's, and the bytes written are that tree's text.
use Rattle.std.proofs.Common.{Ok, Err}
use mathlib.Core.Path.{◌≡◌, refl, sym, ap, ◌∙◌}
use mathlib.Core.List.{List, [], ◌∷◌}
use mathlib.Core.Bool.{Bool, true, false, cond}
use native.Mathlib.Omega.{arith}
use lib.Dec.{leb}
use lib.ListN.{length, take, drop}
use lib.Seq.{take_at}
use Prim.Native.Nat.{ℕ, ◌≤◌}
use borrow.Author.Tests.{leb-true}
use Rattle.tree.specs.Rules.{Words32}
use Rattle.tree.specs.declared.Profile.{Profile}
use Rattle.tree.proofs.Never.{never}
use Rattle.tree.proofs.Same.{and-true}
use Rattle.table_row.specs.Buffer.{over}
use Rattle.table_row.specs.Tree.{tree_of}
use Rattle.table_rules.specs.Answer.{is_accepted, place_of, Answer, refusal}
use Rattle.table_rules.specs.Contract.{check_due}
use Rattle.table_rules.specs.Keyed.{Passes}
use Rattle.table_rules.proofs.Faults.{first-both, first-last}
use Rattle.table_rules.proofs.Passed.{passed_length, passed-table}
use Rattle.table_rules.proofs.Passing.{check-passes}
use Rattle.table_rules.proofs.Says.{says-one}
use Rattle.listing.specs.Reading.{Outcome.accepted, reading}
use Rattle.listing.specs.Writing.{text_of}
use Rattle.listing_write.specs.Contract.{WriteContract, answer_due, fits, text_due}
use Rattle.listing_write.proofs.Due.{numbered-due}
use Rattle.listing_round_trip.specs.Calls.{CallsRoundTrip}
use Rattle.listing_round_trip.proofs.Tables.{table-back}

-- an acceptance is due to a table that passes and whose text fits, and to no other
record Due (p : Profile) (w : List ℕ) (room : ℕ) : Type 0 where
  passes : Passes p w
  long : length (text_of (tree_of w)) ≤ 65536
  answer : answer_due p w room ≡ Ok (length (text_of (tree_of w)))

fit : (s : List ℕ) (room : ℕ) → is_accepted (text_due s room) ≡ true → fits (length s) room ≡ true
fit s room h = go (fits (length s) room) h
  where
    go : (t : Bool) → is_accepted (cond t (Ok (length s)) (Err (refusal 3 1 0))) ≡ true → t ≡ true
    go true h = refl
    go false h = never (cc)

due : (p : Profile) (w : List ℕ) (room : ℕ) → is_accepted (answer_due p w room) ≡ true → Due p w room
unfolding answer_due fits
due p w room h =
    let s = text_of (tree_of w) in
    let b = first-both (check_due p w) (text_due s room) h in
    let f = fit s room b.1 in
    record {
      passes = check-passes p w b.0;
      long = leb-true _ _ (and-true (leb (length s) 65536) (leb (length s) room) f).0;
      answer = first-last (check_due p w ∷ []) (text_due s room) h ∙ rw f;
    }

module _ (p : Profile) (w d : List ℕ) (answer : Answer) (text : List ℕ) (C : WriteContract p w d answer text) (taken : is_accepted answer ≡ true) where
  due-here : Due p w (length d)
  due-here = due p w (length d) (numbered-due p w d ∙ sym C.says.accepted ∙ taken)

  -- the bytes written
  bytes_back : take (place_of answer) text ≡ text_of (tree_of w)
  unfolding over
  bytes_back =
      let s = text_of (tree_of w) in
      let e = due-here.answer in
      let i : length s ≡ place_of answer = sym (C.says.place-due ∙ ap place_of e) in
      let t : text ≡ over d s = C.written ∙ rw e in
      rw t (take_at s (drop (length s) d) (place_of answer) i)

  -- and what they are read as
  read_back : Words32 w → (b : List ℕ) → length w ≤ length b → reading p (take (place_of answer) text) (length b) ≡ accepted (tree_of w)
  read_back small b room = rw bytes_back (table-back p w (length b) due-here.passes small due-here.long room)

pub calls-round-trip : CallsRoundTrip
calls-round-trip p w d answer text small C taken b back after R room =
    let P = (due-here p w d answer text C taken).passes in
    let e = read_back p w d answer text C taken small b (omega arith) in
    let says = rw e at R.says in
    let rows = passed_length p w P in
    record {
      rows = says-one back (Ok _) says (record { number-due = refl; side-due = refl; place-due = omega arith; accepted = refl });
      table = (rw e at R.table) ∙ rw (passed-table p w P);
    }
