-- The end of a text: its form, the answer that is due there, and what the table holds then.
use Rattle.std.proofs.Common.{Ok, Err}
use mathlib.Core.Path.{◌≡◌, refl, sym, ◌∙◌}
use mathlib.Core.List.{List, [], ◌∷◌}
use mathlib.Core.Bool.{true, false}
use native.Mathlib.Omega.{arith}
use lib.Dec.{eqb}
use lib.ListN.{length, get_or, take-append-drop}
use Prim.Native.Nat.{ℕ, zero, suc, ◌*◌, ◌-◌, ◌≤◌, ◌<◌}
use borrow.Author.Tests.{le-leb, lt-leb}
use Rattle.table_rules.specs.Answer.{refusal}
use Rattle.tree.specs.Forest.{Forest}
use Rattle.tree.specs.Rules.{NameRule, ContentRule, Within}
use Rattle.tree.specs.declared.Profile.{Profile}
use Rattle.table_row.specs.Buffer.{over}
use Rattle.table_row.specs.Tree.{table}
use Rattle.table_row.proofs.Tree.{length-table}
use Rattle.listing.specs.Reading.{State, State.before, State.inside, State.closed, ended, has_form}
use Rattle.listing.specs.Accepted.{GoodState}
use Rattle.listing_reader.specs.declared.Reader.{Reader}
use Rattle.listing_reader.specs.State.{zeroed, Filled, Reads}
use Rattle.listing_read_lines.specs.Contract.{Answers, Ends, is_taken, table_after}

pub form-long : (t : List ℕ) → 65536 < length t → false ≡ has_form t
form-long t h = rw (lt-leb (length t) 65536 h)

pub form-empty : (t : List ℕ) → length t ≡ 0 → true ≡ has_form t
form-empty [] h = refl
form-empty (b ∷ bs) h = absurd (omega arith)

any-default : (l : List ℕ) (i d e : ℕ) → i < length l → get_or l i d ≡ get_or l i e
any-default [] i d e h = absurd (omega arith)
any-default (x ∷ l) zero d e h = refl
any-default (x ∷ l) (suc i) d e h = any-default l i d e (omega arith)

pub form-last : (t : List ℕ) → length t ≤ 65536 → (length t ≡ 0 → ⊥) → eqb (get_or t (length t - 1) 0) 10 ≡ has_form t
form-last [] h n = absurd (n refl)
form-last (b ∷ bs) h n = rw (le-leb (length (b ∷ bs)) 65536 h, any-default (b ∷ bs) (length (b ∷ bs) - 1) 0 10 (omega arith))

pub ruleset form_rules = (form-long, form-empty, form-last)

-- no row means no root
module _ (s : Reader) where
  pub ends-rootless : s.count ≡ 0 → Ends s (Err (refusal 12 0 0))
  ends-rootless e = record { does = λ p w t h. go p w t h }
    where
      go : (p : Profile) (w : List ℕ) (t : State) → Reads p w s t → Answers (Err (refusal 12 0 0)) (ended t) × (false ≡ is_taken (ended t))
      go p w (before d) h = (record { number-due = refl; side-due = refl; place-due = refl; accepted = refl }, refl)
      go p w (inside f q v) h = let c = h.filled.rows in absurd (omega arith)
      go p w (closed f) h = let c = h.filled.rows in absurd (omega arith)

  pub ends-rooted : (s.count ≡ 0 → ⊥) → Ends s (Ok s.count)
  ends-rooted e = record { does = λ p w t h. go p w t h }
    where
      go : (p : Profile) (w : List ℕ) (t : State) → Reads p w s t → Answers (Ok s.count) (ended t) × (true ≡ is_taken (ended t))
      go p w (before d) h = absurd (e h.rows)
      go p w (inside f q v) h = (record { number-due = refl; side-due = refl; place-due = h.filled.rows; accepted = refl }, refl)
      go p w (closed f) h = (record { number-due = refl; side-due = refl; place-due = h.filled.rows; accepted = refl }, refl)

filled-table : (w : List ℕ) (count : ℕ) (f : Forest) → Within NameRule ContentRule 16 f → Filled w count f → w ≡ over (zeroed (length w)) (table f)
unfolding over
filled-table w count f g h =
    let l : length (table f) ≡ 20 * count = length-table f g ∙ rw h.rows in
    sym (take-append-drop (20 * count) w) ∙ rw (h.used, h.rest, l)

pub table-end : (p : Profile) (most : ℕ) (w : List ℕ) (s : Reader) (t : State) → GoodState p most t → Reads p w s t → w ≡ table_after (ended t) (length w)
table-end p most w s (before d) g h = h.empty
table-end p most w s (inside f q v) g h = filled-table w s.count f g.fit.good.within h.filled
table-end p most w s (closed f) g h = filled-table w s.count f g.good.within h.filled
