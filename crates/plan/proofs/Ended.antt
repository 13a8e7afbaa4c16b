-- The end can be told at the heads: some head is a row just where one of the least name is.
use mathlib.Core.Path.{◌≡◌, refl, sym, ◌∙◌}
use mathlib.Core.List.{List}
use mathlib.Core.Bool.{Bool, true, false, cond}
use mathlib.Core.Logic.{◌⊎◌, ⊎_elim, ⊎_map}
use Prim.Native.Nat.{ℕ}
use Rattle.tree.specs.Name.{Name}
use Rattle.table_row.specs.Table.{row_at, name}
use Rattle.table_row.specs.Order.{ordered}
use Rattle.plan_cursor.specs.Cursor.{is_row, keep, least}
use Rattle.plan_cursor.specs.declared.Rows.{Rows}
use Rattle.plan.specs.Settle.{ended}
use Rattle.plan.proofs.Least.{Key, Key.named, Key.last, cmp_key, UpTo, KeyAt, LeastOf, least-of, up-to, least-keys}
use Rattle.plan.proofs.Keys.{up-last}

key_of : (w : List ℕ) (i : ℕ) → (x : Key) × KeyAt w i x
key_of w i = go (is_row w i) refl
  where
    go : (b : Bool) → is_row w i ≡ b → (x : Key) × KeyAt w i x
    go true e = (named (name (row_at w i)), (e, refl))
    go false e = (last, e)

-- a head of the least name is a row, and is kept
kept_row : (w : List ℕ) (a : ℕ) (n : Name) (x y z : Key) → KeyAt w a x → UpTo (named n) y → UpTo (named n) z → named n ≡ x
    → is_row w (keep (ordered (cmp_key x y)) (ordered (cmp_key x z)) a) ≡ true
kept_row w a n x y z k p q e = rw (← e, up-to (named n) y p, up-to (named n) z q) (rw (← e) at k).0

module _ (o l r : List ℕ) where
  pub some-row : (g : Rows) → (is_row o g.o ≡ true) ⊎ ((is_row l g.l ≡ true) ⊎ (is_row r g.r ≡ true)) → ended o l r g ≡ false
  unfolding ended
  some-row g = go (is_row o g.o) (is_row l g.l) (is_row r g.r)
    where
      go : (a b c : Bool) → (a ≡ true) ⊎ ((b ≡ true) ⊎ (c ≡ true)) → cond a false (cond b false (cond c false true)) ≡ false
      go true b c s = refl
      go false true c s = refl
      go false false true s = refl
      go false false false s = ⊎_elim sym (⊎_elim sym sym) s

  pub least-ended : (h : Rows) → ended o l r (least o l r h) ≡ ended o l r h
  least-ended h =
      let a = key_of o h.o in let b = key_of l h.l in let c = key_of r h.r in
      go a.0 b.0 c.0 _ a.1 b.1 c.1 (least-of a.0 b.0 c.0)
    where
      go : (x y z m : Key) → KeyAt o h.o x → KeyAt l h.l y → KeyAt r h.r z → LeastOf x y z m
          → ended o l r (least o l r h) ≡ ended o l r h
      go x y z last a b c L =
          let u = rw (up-last x L.first) at a in
          let v = rw (up-last y L.second) at b in
          let w = rw (up-last z L.third) at c in
          rw (least-keys o l r h last last last u v w)
      go x y z (named n) a b c L =
          rw (least-keys o l r h x y z a b c)
          (some-row _ (⊎_map (kept_row o h.o n x y z a L.second L.third)
          (⊎_map (kept_row l h.l n y x z b L.first L.third) (kept_row r h.r n z x y c L.first L.second)) L.one))
          ∙ sym (some-row h (⊎_map (λ q. (rw (← q) at a).0) (⊎_map (λ q. (rw (← q) at b).0) (λ q. (rw (← q) at c).0)) L.one))
