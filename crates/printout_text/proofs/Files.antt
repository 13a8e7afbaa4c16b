-- A file's text: too long, or as it is read into 128 rows.
use Rattle.std.proofs.Common.{Ok, Err}
use mathlib.Core.Path.{◌≡◌, refl, sym, ap, ◌∙◌}
use mathlib.Core.List.{List}
use mathlib.Core.Bool.{false≢true}
use native.Mathlib.Omega.{arith}
use lib.ListN.{length, take, drop, length-take}
use lib.Seq.{take_at}
use Prim.Native.Nat.{ℕ, suc, ◌*◌, ◌≤◌, ◌<◌}
use borrow.Author.Tests.{le-leb, lt-leb}
use Rattle.tree.specs.Forest.{Forest, size}
use Rattle.tree.specs.declared.Profile.{Profile}
use Rattle.table_row.specs.Buffer.{over}
use Rattle.table_row.specs.Tree.{table, tree_of}
use Rattle.table_row.proofs.Tree.{length-table, tree-table}
use Rattle.table_rules.specs.declared.Refusal.{Refusal}
use Rattle.table_rules.specs.Answer.{is_accepted, number_of, place_of, Answer, refusal}
use Rattle.listing.specs.Bytes.{text}
use Rattle.listing.specs.Reading.{Outcome, Outcome.refused, Outcome.accepted, reading}
use Rattle.listing.proofs.Accepted.{accepted-fits}
use Rattle.listing_reader.specs.State.{zeroed}
use Rattle.plan_text.specs.Spelled.{run_text}
use Rattle.listing_read_lines.specs.Contract.{ReadContract, table_after}
use Rattle.printout_text.specs.Printed.{file_read, printed, refused_text}
use Rattle.printout_text.specs.Tables.{IsTable, Left, Loaded}

pub too_long : (p : Profile) (t after : List ℕ) → 16384 < length t → Loaded p (file_read p t) (Err (refusal 6 0 0)) after
unfolding file_read
too_long p t after h =
    let e : file_read p t ≡ refused 6 0 = rw (lt-leb (length t) 16384 h) in
    record { says = rw e (record { number-due = refl; side-due = refl; place-due = refl; accepted = refl }); kind = rw e; left = rw e tt }

pub as_read : (p : Profile) (t b : List ℕ) (a : Answer) (after : List ℕ) → length t ≤ 16384 → length b ≡ 2560 → ReadContract p t b a after → Loaded p (file_read p t) a after
unfolding file_read over
as_read p t b a after h l c =
    let e : file_read p t ≡ reading p t 2560 = rw (le-leb (length t) 16384 h) in
    record { says = rw (e, ← l) c.says; kind = rw (e, ← l) c.kind; left = rw e (go (reading p t 2560) refl (rw l at c.table)) }
  where
    go : (o : Outcome) → reading p t 2560 ≡ o → after ≡ table_after o 2560 → Left p o after
    go (refused n place) e w = tt
    go (accepted f) e w =
        let fit = accepted-fits p t 2560 f e in
        (fit.good, fit.room, ap (take (20 * suc (size f))) w ∙ take_at (table f) (drop (length (table f)) (zeroed 2560)) (20 * suc (size f)) (length-table f fit.good.within))

-- a file that was taken: the tree, and its table among the lent words
pub record Taken (p : Profile) (o : Outcome) (w : List ℕ) (rows : ℕ) : Type 0 where
  pub tree : Forest
  pub read : o ≡ accepted tree
  pub few : rows ≤ 128
  pub table : IsTable p (take (20 * rows) w)
  pub same : tree_of (take (20 * rows) w) ≡ tree

pub taken : (p : Profile) (o : Outcome) (a : Answer) (w : List ℕ) (rows : ℕ) → Loaded p o a w → a ≡ Ok rows → Taken p o w rows
taken p (refused n place) a w rows l e = absurd (false≢true (sym l.kind ∙ ap is_accepted e))
taken p (accepted f) a w rows l e =
    let r : suc (size f) ≡ rows = sym l.says.place-due ∙ ap place_of e in
    let t = rw r at l.left.2 in
    let q = l.left.1 in
    record {
      tree = f;
      read = refl;
      few = omega arith;
      table = record { tree = f; good = l.left.0; few = q; words = t };
      same = rw t (tree-table f l.left.0.within);
    }

pub not_taken : (p : Profile) (o : Outcome) (a : Answer) (w : List ℕ) (r : Refusal) → Loaded p o a w → a ≡ Err r → o ≡ refused r.number r.place
not_taken p (refused m line) a w r l e =
    let x : r.number ≡ m = sym (ap number_of e) ∙ l.says.number-due in
    let y : r.place ≡ line = sym (ap place_of e) ∙ l.says.place-due in
    cc
not_taken p (accepted f) a w r l e = absurd (false≢true (sym (ap is_accepted e) ∙ l.kind))

-- its rows are a part of the 2,560 words
pub taken-part : {p : Profile} {o : Outcome} {w : List ℕ} {rows n : ℕ} → Taken p o w rows → length w ≡ n → n ≡ 2560 → (20 * rows ≤ length w) × (20 * rows ≡ length (take (20 * rows) w))
taken-part t l e = let h = t.few in (omega arith, simp length-take (omega arith))

-- the printout, by how far the files are taken
module _ (p : Profile) (archive left right : List ℕ) where
  pub no-archive : (n place : ℕ) → file_read p archive ≡ refused n place → printed p archive left right ≡ refused_text (text "archive") n place
  unfolding printed
  no-archive n place e = rw e

  module _ (o : Forest) (a : file_read p archive ≡ accepted o) where
    pub no-left : (n place : ℕ) → file_read p left ≡ refused n place → printed p archive left right ≡ refused_text (text "left") n place
    unfolding printed
    no-left n place e = rw (a, e)

    module _ (l : Forest) (b : file_read p left ≡ accepted l) where
      pub no-right : (n place : ℕ) → file_read p right ≡ refused n place → printed p archive left right ≡ refused_text (text "right") n place
      unfolding printed
      no-right n place e = rw (a, b, e)

      pub all_read : (r : Forest) → file_read p right ≡ accepted r → printed p archive left right ≡ run_text p o l r
      unfolding printed
      all_read r e = rw (a, b, e)
