-- Following a path of which some names are left, in the words that the code lends.
use Rattle.std.proofs.Common.{Option, Some, None}
use mathlib.Core.Path.{◌≡◌, refl, sym, ap, subst, ◌∙◌}
use mathlib.Core.List.{List, [], ◌∷◌}
use native.Mathlib.Omega.{arith}
use lib.ListN.{length, take, drop, get_or}
use Rattle.std.specs.List.{between}
use Rattle.std.proofs.lemmas.Slice.{first_rest}
use Rattle.tree.proofs.Never.{never}
use Prim.Native.Nat.{ℕ, ◌+◌, ◌*◌, ◌-◌, ◌≤◌, ◌<◌}
use Rattle.tree.specs.Name.{Name}
use Rattle.table_find.specs.Subtree.{end_of, subtree}
use Rattle.table_find.specs.Entry.{child, Inside, Finds}
use Rattle.table_find.proofs.Walk.{part_length}
use Rattle.table_follow.specs.Follow.{further, onward, follow}

pub inside-at : (w : List ℕ) (r : Option ℕ) (i : ℕ) → r ≡ Some i → Inside w r → 20 * (i + 1) ≤ length w
inside-at w r i e h = subst (Inside w) e h

inside-further : (w : List ℕ) (i z : ℕ) (x : Option ℕ) → i ≤ z → 20 * z ≤ length w → Inside (take (20 * z - 20 * i) (drop (20 * i) w)) x → Inside w (further i x)
inside-further w i z (Some k) h l g = omega (arith, part_length w i z h l)
inside-further w i z None h l g = tt

pub follow-none : (w : List ℕ) (path : List Name) → length path ≡ 0 → follow path w ≡ Some 0
unfolding follow
follow-none w [] e = refl
follow-none w (n ∷ path) e = never (cc)

module _ (w : List ℕ) (path : List Name) (h : 0 < length path) (r : Option ℕ) (e : r ≡ child w 0 (get_or path 0 [])) where
  follow_one : follow path w ≡ onward r (λ (i : ℕ). further i (follow (between 1 (length path) path) (subtree w i)))
  unfolding follow
  follow_one = ap (λ (p : List Name). follow p w) (first_rest path [] h) ∙ rw e

  pub follow-lost : r ≡ None → Finds w (follow path w) None
  follow-lost z = record { answer = sym (follow_one ∙ rw z); inside = tt }

  pub follow-on : (i z : ℕ) (x : Option ℕ) → r ≡ Some i → z ≡ end_of w i → 20 * z ≤ length w
      → Finds (take (20 * z - 20 * i) (drop (20 * i) w)) (follow (between 1 (length path) path) (take (20 * z - 20 * i) (drop (20 * i) w))) x
      → Finds w (follow path w) (further i x)
  follow-on i z x q zi zl k = record {
    answer = sym (follow_one ∙ rw (q, k.answer, zi));
    inside = inside-further w i z x (omega arith) zl k.inside;
  }
