-- What is asked of a pick: it takes one of the three nodes, what both sides hold where they agree, and what is given at a
-- move. The three picks of a run do, each with the node that it keeps at a clash.
use mathlib.Core.List.{◌∷◌}
use mathlib.Core.Logic.{◌⊎◌, inl, inr}
use mathlib.Core.Path.{◌≡◌, refl, subst, sym}
use Rattle.tree.specs.Name.{Name}
use Rattle.tree.specs.Forest.{TreePath, Node, find, kids}
use Rattle.settle.specs.Decision.{Decision, Decision.agreed, Decision.left_gets, Decision.right_gets, Decision.clash}
use Rattle.settle.specs.Results.{Pick, below, to_left, to_right, to_archive}
use Rattle.settle.proofs.Plan.{Agrees}

pub data Result : Type 0 where
  left right archive : Result

abbrev pub to : Result → Pick
to left = to_left
to right = to_right
to archive = to_archive

-- what a result keeps at a clash
abbrev pub kept : Result → Node → Node → Node → Node
kept left o l r = l
kept right o l r = r
kept archive o l r = o

abbrev pub OneOf : Node → Node → Node → Node → Type 0
OneOf x o l r = (x ≡ o) ⊎ ((x ≡ l) ⊎ (x ≡ r))

-- so it has what the three have
pub one_of : (P : Node → Type 0) (x o l r : Node) → OneOf x o l r → P o → P l → P r → P x
one_of P x o l r (inl e) a b c = subst P (sym e) a
one_of P x o l r (inr (inl e)) a b c = subst P (sym e) b
one_of P x o l r (inr (inr e)) a b c = subst P (sym e) c

pub record Settles (pk : Pick) : Type 0 where
  pub chooses : (p : TreePath) (d : Decision) (o l r : Node) → OneOf (pk p d o l r) o l r
  pub agrees : Agrees pk
  pub left : (p : TreePath) (o l r : Node) → pk p left_gets o l r ≡ r
  pub right : (p : TreePath) (o l r : Node) → pk p right_gets o l r ≡ l

pub settles-below : (n : Name) (pk : Pick) → Settles pk → Settles (below n pk)
settles-below n pk f = record {
  chooses = λ p. f.chooses (n ∷ p);
  agrees = λ p. f.agrees (n ∷ p);
  left = λ p. f.left (n ∷ p);
  right = λ p. f.right (n ∷ p);
}

to-agreed : (s : Result) (p : TreePath) (o x : Node) → to s p agreed o x x ≡ x
to-agreed left p o x = refl
to-agreed right p o x = refl
to-agreed archive p o x = refl

to-left : (s : Result) (p : TreePath) (o l r : Node) → to s p left_gets o l r ≡ r
to-left left p o l r = refl
to-left right p o l r = refl
to-left archive p o l r = refl

to-right : (s : Result) (p : TreePath) (o l r : Node) → to s p right_gets o l r ≡ l
to-right left p o l r = refl
to-right right p o l r = refl
to-right archive p o l r = refl

pub to-clash : (s : Result) (p : TreePath) (o l r : Node) → to s p clash o l r ≡ kept s o l r
to-clash left p o l r = refl
to-clash right p o l r = refl
to-clash archive p o l r = refl

chooses : (s : Result) (p : TreePath) (d : Decision) (o l r : Node) → OneOf (to s p d o l r) o l r
chooses left p agreed o l r = inr (inl refl)
chooses left p left_gets o l r = inr (inr refl)
chooses left p right_gets o l r = inr (inl refl)
chooses left p clash o l r = inr (inl refl)
chooses right p agreed o l r = inr (inr refl)
chooses right p left_gets o l r = inr (inr refl)
chooses right p right_gets o l r = inr (inl refl)
chooses right p clash o l r = inr (inr refl)
chooses archive p agreed o l r = inr (inl refl)
chooses archive p left_gets o l r = inr (inr refl)
chooses archive p right_gets o l r = inr (inl refl)
chooses archive p clash o l r = inl refl

pub settles : (s : Result) → Settles (to s)
settles s = record { chooses = chooses s; agrees = to-agreed s; left = to-left s; right = to-right s }

pub to_below : (s : Result) (n : Name) → below n (to s) ≡ to s
to_below left n = refl
to_below right n = refl
to_below archive n = refl

pub kept-find : (s : Result) (o l r : Node) (n : Name) → find n (kids (kept s o l r)) ≡ kept s (find n (kids o)) (find n (kids l)) (find n (kids r))
kept-find left o l r n = refl
kept-find right o l r n = refl
kept-find archive o l r n = refl
