-- No path is listed twice.
use mathlib.Core.Bool.{false}
use mathlib.Core.List.{[], ◌++◌, ◌∷◌, map}
use mathlib.Core.Path.{◌≡◌}
use Prim.Native.Nat.{Ordering}
use Rattle.tree.specs.Forest.{Forest, Node, Node.folder, TreePath, find, kids}
use Rattle.tree.specs.Name.{Name, cmp}
use Rattle.tree.specs.Same.{same_words}
use Rattle.tree.proofs.Never.{never}
use Rattle.tree.proofs.Order.{cmp-refl}
use Rattle.tree.proofs.Same.{same_words-false, same_words-refl}
use Rattle.settle.specs.Decision.{Decision, Decision.agreed, Decision.clash, Decision.left_gets, Decision.right_gets, decide}
use Rattle.settle.specs.Names.{Names, names}
use Rattle.settle.specs.Plan.{plan, settle}
use Rattle.settle.specs.Results.{Line.line, Lines, line_of, list, under}
use Rattle.settle.specs.Resume.{Fresh, same_path}
use Rattle.settle.proofs.Induct.{NotBoth, settle-ind, settle-single}
use Rattle.settle.proofs.Lines.{gather, lines_of, list-plan}
use Rattle.settle.proofs.Names.{Asc, Over, asc-names}

unfoldable pub Uniq : Lines → Type 0
Uniq [] = Unit {0}
Uniq (line p d ∷ xs) = Fresh p xs × Uniq xs

fresh-append : (p : TreePath) (a b : Lines) → Fresh p a → Fresh p b → Fresh p (a ++ b)
unfolding Fresh
fresh-append p [] b f g = g
fresh-append p (x ∷ a) b f g = (f.0, fresh-append p a b f.1 g)

fresh-under : (n : Name) (p : TreePath) (xs : Lines) → Fresh p xs → Fresh (n ∷ p) (map (under n) xs)
unfolding Fresh same_path
fresh-under n p [] f = tt
fresh-under n p (line q d ∷ xs) f = (rw (same_words-refl n) f.0, fresh-under n p xs f.1)

fresh-other : (n m : Name) (p : TreePath) (xs : Lines) → same_words n m ≡ false → Fresh (n ∷ p) (map (under m) xs)
unfolding Fresh same_path
fresh-other n m p [] e = tt
fresh-other n m p (line q d ∷ xs) e = (rw e, fresh-other n m p xs e)

uniq-under : (n : Name) (xs : Lines) → Uniq xs → Uniq (map (under n) xs)
unfolding Uniq
uniq-under n [] u = tt
uniq-under n (line p d ∷ xs) u = (fresh-under n p xs u.0, uniq-under n xs u.1)

apart : (n m : Name) → cmp n m ≡ Ordering.lt → same_words n m ≡ false
apart n m e = same_words-false n m (λ h. let t = cmp-refl n in never (cc))

fresh-gather : (n : Name) (p : TreePath) (ns : Names) (g : Name → Lines) → Over n ns → Fresh (n ∷ p) (gather ns (λ m. map (under m) (g m)))
unfolding gather Over Fresh
fresh-gather n p [] g h = tt
fresh-gather n p (m ∷ ms) g h =
    fresh-append (n ∷ p) (map (under m) (g m)) (gather ms (λ k. map (under k) (g k))) (fresh-other n m p (g m) (apart n m h.0))
    (fresh-gather n p ms g h.1)

uniq-append : (n : Name) (xs b : Lines) → Uniq (map (under n) xs) → Uniq b → ((p : TreePath) → Fresh (n ∷ p) b) → Uniq (map (under n) xs ++ b)
unfolding Uniq
uniq-append n [] b u v f = v
uniq-append n (line p d ∷ xs) b u v f = (fresh-append (n ∷ p) (map (under n) xs) b u.0 (f p), uniq-append n xs b u.1 v f)

uniq-gather : (ns : Names) (g : Name → Lines) → Asc ns → ((n : Name) → Uniq (g n)) → Uniq (gather ns (λ m. map (under m) (g m)))
unfolding gather Asc Uniq
uniq-gather [] g a u = tt
uniq-gather (n ∷ ns) g a u =
    uniq-append n (g n) (gather ns (λ m. map (under m) (g m))) (uniq-under n (g n) (u n)) (uniq-gather ns g a.1 u)
    (λ p. fresh-gather n p ns g a.0)

abbrev UniqN : Node → Node → Node → Type 0
UniqN o l r = Uniq (lines_of (settle o l r))

uniq-single : (o l r : Node) → NotBoth l r → UniqN o l r
unfolding Uniq Fresh
uniq-single o l r nb = rw (settle-single o l r nb) (go (decide o l r))
  where
    go : (d : Decision) → Uniq (line_of [] d)
    go agreed = tt
    go left_gets = (tt, tt)
    go right_gets = (tt, tt)
    go clash = (tt, tt)

uniq-pair : (o : Node) (l r : Forest) → ((n : Name) → UniqN (find n (kids o)) (find n l) (find n r)) → UniqN o (folder l) (folder r)
unfolding settle
uniq-pair o l r ih = rw (list-plan (kids o) l r) (uniq-gather (names (kids o) l r) (λ n. lines_of (settle (find n (kids o)) (find n l) (find n r)))
    (asc-names (kids o) l r) ih)

pub distinct : (o l r : Forest) → Uniq (list (plan o l r))
unfolding settle
distinct o l r = settle-ind UniqN uniq-single uniq-pair (folder o) (folder l) (folder r)
