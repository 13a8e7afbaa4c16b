-- The least name at the heads of three runs, and that the code's comparison of three heads keeps just those of that name.
use mathlib.Core.Path.{◌≡◌, refl, ap, sym, ◌∙◌}
use mathlib.Core.List.{List, ◌++◌}
use mathlib.Core.Bool.{Bool, true, false, cond}
use mathlib.Core.Logic.{◌⊎◌, inl, inr}
use native.Mathlib.Omega.{arith}
use lib.ListN.{length}
use Prim.Native.Nat.{ℕ, suc, ◌/◌, ◌≤◌, Ordering}
use borrow.Author.Tests.{lt-ltb, le-ltb}
use Rattle.tree.specs.Name.{Name, cmp, by_order, if_same}
use Rattle.tree.specs.Forest.{Forest, Forest.end, Forest.leaf, Forest.dir, Node, Node.absent, Node.file, Node.folder, Present}
use Rattle.table_row.specs.Table.{row_at, name}
use Rattle.table_row.specs.Tree.{file_row, folder_row, rows_of}
use Rattle.table_row.specs.Order.{ordered}
use Rattle.std.specs.Ordering.{is_le, ordering_reverse}
use Rattle.std.specs.declared.cmp.Ordering.{Ordering as Order}
use Rattle.table_stands.specs.Stands.{Ruled}
use Rattle.plan_cursor.specs.Cursor.{none, is_row, order_at, keep, least}
use Rattle.plan_cursor.specs.declared.Rows.{Rows}
use Rattle.tree.proofs.Never.{never}
use Rattle.tree.proofs.Order.{flip, cmp-refl, cmp-eq, cmp-flip, cmp-trans}
use Rattle.settle.proofs.Merge.{first, Least}
use Rattle.table_stands.proofs.Rows.{head}
use Rattle.table_stands.proofs.Forest.{file-name, folder-name}
use Rattle.plan.specs.Items.{or_none}
use Rattle.plan.proofs.Head.{Run, head_row}

-- the name at the head of a run; a run that has ended comes after every other
pub data Key : Type 0 where
  named : Name → Key
  last : Key

abbrev pub key : Forest → Key
key end = last
key (leaf m c s) = named m
key (dir m k s) = named m

abbrev pub cmp_key : Key → Key → Ordering
cmp_key (named n) (named m) = cmp n m
cmp_key (named n) last = Ordering.lt
cmp_key last (named m) = Ordering.gt
cmp_key last last = Ordering.eq

cmp_key-flip : (x y : Key) → cmp_key y x ≡ flip (cmp_key x y)
cmp_key-flip (named n) (named m) = cmp-flip n m
cmp_key-flip (named n) last = refl
cmp_key-flip last (named m) = refl
cmp_key-flip last last = refl

abbrev pub UpTo : Key → Key → Type 0
UpTo x y = ¬ (cmp_key x y ≡ Ordering.gt)

up_to-trans : (x y z : Key) → UpTo x y → UpTo y z → UpTo x z
up_to-trans (named n) (named m) (named k) a b = go (cmp n m) (cmp m k) refl refl
  where
    go : (v w : Ordering) → cmp n m ≡ v → cmp m k ≡ w → ¬ (cmp n k ≡ Ordering.gt)
    go Ordering.gt w e f h = a e
    go Ordering.eq w e f h = let t = cmp-eq n m e in b (rw (← t) h)
    go Ordering.lt w e f h = at w f h
      where
        at : (w : Ordering) → cmp m k ≡ w → ¬ (cmp n k ≡ Ordering.gt)
        at Ordering.lt f h = let t = cmp-trans n m k e f in never (cc)
        at Ordering.eq f h = let t = cmp-eq m k f in never (cc)
        at Ordering.gt f h = b f
up_to-trans (named n) (named m) last a b = λ h. never (cc)
up_to-trans (named n) last (named k) a b = absurd (b refl)
up_to-trans (named n) last last a b = a
up_to-trans last (named m) z a b = absurd (a refl)
up_to-trans last last z a b = b

-- the lesser of two keys
abbrev min_key : Key → Key → Key
min_key x y = by_order (cmp_key x y) x x y

record Lesser (x y m : Key) : Type 0 where
  left : UpTo m x
  right : UpTo m y
  one : (m ≡ x) ⊎ (m ≡ y)

up_to-refl : (x : Key) → UpTo x x
up_to-refl (named n) h = let e = cmp-refl n in never (cc)
up_to-refl last h = never (cc)

lesser : (x y : Key) → Lesser x y (min_key x y)
lesser x y = go (cmp_key x y) refl
  where
    go : (w : Ordering) → cmp_key x y ≡ w → Lesser x y (by_order w x x y)
    go Ordering.lt e = record { left = up_to-refl x; right = λ h. never (cc); one = inl refl }
    go Ordering.eq e = record { left = up_to-refl x; right = λ h. never (cc); one = inl refl }
    go Ordering.gt e = record { left = λ h. let f = cmp_key-flip x y in never (cc); right = up_to-refl y; one = inr refl }

-- the least of three
pub record LeastOf (x y z m : Key) : Type 0 where
  pub first : UpTo m x
  pub second : UpTo m y
  pub third : UpTo m z
  pub one : (m ≡ x) ⊎ ((m ≡ y) ⊎ (m ≡ z))

abbrev pub least_key : Key → Key → Key → Key
least_key x y z = min_key x (min_key y z)

pub least-of : (x y z : Key) → LeastOf x y z (least_key x y z)
least-of x y z =
    let m = min_key y z in let a = lesser y z in let b = lesser x m in
    record {
      first = b.left;
      second = up_to-trans (min_key x m) m y b.right a.left;
      third = up_to-trans (min_key x m) m z b.right a.right;
      one = go b.one a.one;
    }
  where
    go : (min_key x (min_key y z) ≡ x) ⊎ (min_key x (min_key y z) ≡ min_key y z) → (min_key y z ≡ y) ⊎ (min_key y z ≡ z)
        → (least_key x y z ≡ x) ⊎ ((least_key x y z ≡ y) ⊎ (least_key x y z ≡ z))
    go (inl e) f = inl e
    go (inr e) (inl f) = inr (inl (e ∙ f))
    go (inr e) (inr f) = inr (inr (e ∙ f))

pub least-key : (n : Name) (f : Forest) → UpTo (named n) (key f) → Least n f
unfolding Least
least-key n end h = tt
least-key n (leaf m c s) h = h
least-key n (dir m k s) h = h

-- what the code keeps of a head, by its order against two others
keep-none : (x y : Order) → keep x y none ≡ none
keep-none x y = go (is_le x) (is_le y)
  where
    go : (a b : Bool) → cond a (cond b none none) none ≡ none
    go true true = refl
    go true false = refl
    go false b = refl

pub up-to : (x y : Key) → UpTo x y → is_le (ordered (cmp_key x y)) ≡ true
up-to x y h = go (cmp_key x y) refl
  where
    go : (w : Ordering) → cmp_key x y ≡ w → is_le (ordered w) ≡ true
    go Ordering.lt e = refl
    go Ordering.eq e = refl
    go Ordering.gt e = absurd (h e)

pub or-present : (x : Node) (b : ℕ) → Present x → or_none x b ≡ b
or-present absent b h = absurd h
or-present (file c) b h = refl
or-present (folder k) b h = refl

kept : (n m : Name) (x : Node) (y z : Key) (b : ℕ) → Present x → LeastOf (named m) y z (named n)
    → keep (ordered (cmp_key (named m) y)) (ordered (cmp_key (named m) z)) b ≡ or_none (if_same (cmp n m) x absent) b
kept n m x y z b h l = go (cmp n m) refl
  where
    after : (q : Key) → cmp n m ≡ Ordering.lt → named n ≡ q → is_le (ordered (cmp_key (named m) q)) ≡ false
    after q e i = let f = cmp-flip n m in rw (← i, f, e)

    dropped : (a : Bool) → cond a none none ≡ none
    dropped true = refl
    dropped false = refl

    less : cmp n m ≡ Ordering.lt → (named n ≡ named m) ⊎ ((named n ≡ y) ⊎ (named n ≡ z))
        → keep (ordered (cmp_key (named m) y)) (ordered (cmp_key (named m) z)) b ≡ none
    less e (inl i) = let r = cmp-refl n in let j : n ≡ m = cc in never (cc)
    less e (inr (inl i)) = rw (after y e i)
    less e (inr (inr i)) = rw (after z e i) (dropped (is_le (ordered (cmp_key (named m) y))))

    go : (w : Ordering) → cmp n m ≡ w → keep (ordered (cmp_key (named m) y)) (ordered (cmp_key (named m) z)) b ≡ or_none (if_same w x absent) b
    go Ordering.lt e = less e l.one
    go Ordering.eq e =
        let q = cmp-eq n m e in
        rw (← q, up-to (named n) y l.second, up-to (named n) z l.third) (sym (or-present x b h))
    go Ordering.gt e = absurd (l.first e)

pub keep-first : (n : Name) (f : Forest) (y z : Key) (b : ℕ) → LeastOf (key f) y z (named n)
    → keep (ordered (cmp_key (key f) y)) (ordered (cmp_key (key f) z)) (head_row f b) ≡ or_none (first n f) b
unfolding first
keep-first n end y z b l = keep-none (ordered (cmp_key last y)) (ordered (cmp_key last z))
keep-first n (leaf m c s) y z b l = kept n m (file c) y z b tt l
keep-first n (dir m k s) y z b l = kept n m (folder k) y z b tt l

-- the code's order of two heads
order-turned : (x y : Key) → ordering_reverse (ordered (cmp_key x y)) ≡ ordered (cmp_key y x)
order-turned x y = rw (cmp_key-flip x y) (go (cmp_key x y))
  where
    go : (w : Ordering) → ordering_reverse (ordered w) ≡ ordered (flip w)
    go Ordering.lt = refl
    go Ordering.eq = refl
    go Ordering.gt = refl

abbrev pub KeyAt : List ℕ → ℕ → Key → Type 0
KeyAt w i last = is_row w i ≡ false
KeyAt w i (named m) = (is_row w i ≡ true) × (name (row_at w i) ≡ m)

pub key-at : (w : List ℕ) (e : ℕ) (f : Forest) (b : ℕ) → length w ≤ 81920 → Run w e f b → Ruled f → KeyAt w (head_row f b) (key f)
unfolding rows_of Ruled
key-at w e end b h r t = le-ltb none (length w / 20) (omega arith)
key-at w e (leaf m c s) b h r t =
    let q = head w b (file_row (suc e) m c) (rows_of (suc e) s ++ r.rest) r.here in
    (lt-ltb b (length w / 20) q.is, ap name q.row ∙ file-name (suc e) m c t.0)
key-at w e (dir m k s) b h r t =
    let q = head w b (folder_row (suc e) m) ((rows_of (suc (suc e)) k ++ rows_of (suc e) s) ++ r.rest) r.here in
    (lt-ltb b (length w / 20) q.is, ap name q.row ∙ folder-name (suc e) m t.0)

order-keys : (w : List ℕ) (i : ℕ) (v : List ℕ) (j : ℕ) (x y : Key) → KeyAt w i x → KeyAt v j y → order_at w i v j ≡ ordered (cmp_key x y)
unfolding order_at
order-keys w i v j (named n) (named m) a b = rw (a.0, b.0, a.1, b.1)
order-keys w i v j (named n) last a b = rw (a.0, b)
order-keys w i v j last (named m) a b = rw (a, b.0)
order-keys w i v j last last a b = rw (a, b)

-- each head against the other two, by the keys
pub least-keys : (o l r : List ℕ) (h : Rows) (x y z : Key) → KeyAt o h.o x → KeyAt l h.l y → KeyAt r h.r z
    → least o l r h ≡ record {
      o = keep (ordered (cmp_key x y)) (ordered (cmp_key x z)) h.o;
      l = keep (ordered (cmp_key y x)) (ordered (cmp_key y z)) h.l;
      r = keep (ordered (cmp_key z x)) (ordered (cmp_key z y)) h.r;
    }
least-keys o l r h x y z a b c =
    rw (
      order-keys o h.o l h.l x y a b,
      order-keys l h.l r h.r y z b c,
      order-keys o h.o r h.r x z a c,
      order-turned x y,
      order-turned x z,
      order-turned y z,
    )
