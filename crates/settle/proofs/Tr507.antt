-- TR 507: the new trees are a synchronization (its Proposition 4.3.12), and the only one (its Proposition 4.3.3).
use mathlib.Core.Path.{◌∙◌, ◌≡◌, sym}
use Rattle.tree.specs.Forest.{TreePath, Forest, Node.folder, Sorted}
use Rattle.tree.specs.Value.{PathMap, Filesystem, path_map}
use Rattle.tree.proofs.Value.{node-ext}
use Rattle.tree.proofs.Filesystem.{up, value-only-folders, filesystem}
use Rattle.settle.specs.Plan.{settle}
use Rattle.settle.specs.Results.{new_left, new_right}
use Rattle.settle.specs.Tr507.{Relevant, Met, Synchronization}
use Rattle.settle.specs.Archive.{Target}
use Rattle.settle.proofs.Outcome.{un-folder}
use Rattle.settle.proofs.Picks.{Result.left, Result.right}
use Rattle.settle.proofs.Relevant.{Rel, relevant→rel, rel→relevant}
use Rattle.settle.proofs.Sorted.{sorted-left, sorted-right}
use Rattle.settle.proofs.Target.{meets, only}

-- the four requirements on a pair are those on its two parts, each of which keeps its own side at a clash
met : (O A B C D : PathMap) (p : TreePath) → Target O A B A C p → Target O A B B D p → Met O A B C D p
met O A B C D p c d = record {
  same = λ e. (c.same e, d.same e ∙ e);
  left-clean = λ h. (c.left-clean h, d.left-clean h);
  right-clean = λ h. (c.right-clean h, d.right-clean h);
  clashing = λ h k n. (c.clashing h k n, d.clashing h k n);
}

met-left : (O A B C D : PathMap) (p : TreePath) → Met O A B C D p → Target O A B A C p
met-left O A B C D p m = record {
  same = λ e. (m.same e).0;
  left-clean = λ h. (m.left-clean h).0;
  right-clean = λ h. (m.right-clean h).0;
  clashing = λ h k n. (m.clashing h k n).0;
}

met-right : (O A B C D : PathMap) (p : TreePath) → Met O A B C D p → Target O A B B D p
met-right O A B C D p m = record {
  same = λ e. (m.same e).1 ∙ sym e;
  left-clean = λ h. (m.left-clean h).1;
  right-clean = λ h. (m.right-clean h).1;
  clashing = λ h k n. (m.clashing h k n).1;
}

pub relevant : (l r : Forest) (p : TreePath) → Relevant (path_map l) (path_map r) p → Rel (path_map l) (path_map r) p
relevant l r p h =
    relevant→rel p (path_map l) (path_map r) (up (path_map l) (value-only-folders (folder l))) (up (path_map r) (value-only-folders (folder r))) h

-- SOUND: the new trees meet the four requirements
pub sound : (o l r : Forest) → Sorted o → Sorted l → Sorted r
    → Synchronization (path_map o) (path_map l) (path_map r) (path_map (new_left o l r)) (path_map (new_right o l r))
unfolding new_left new_right settle
sound o l r so sl sr p h =
    met (path_map o) (path_map l) (path_map r) (path_map (new_left o l r)) (path_map (new_right o l r)) p
    (meets left (folder o) (folder l) (folder r) so sl sr p (relevant l r p h))
    (meets right (folder o) (folder l) (folder r) so sl sr p (relevant l r p h))

-- UNIQUE: any two filesystems that meet them are the new trees, at every path
pub unique : (o l r : Forest) → Sorted o → Sorted l → Sorted r → (C D : PathMap) → Filesystem C → Filesystem D
    → Synchronization (path_map o) (path_map l) (path_map r) C D → (p : TreePath)
    → (C p ≡ path_map (new_left o l r) p) × (D p ≡ path_map (new_right o l r) p)
unfolding new_left new_right settle
unique o l r so sl sr C D fc fd S p = (
  only left (folder o) (folder l) (folder r) so sl sr C (up C fc.only-folders)
      (λ q h. met-left (path_map o) (path_map l) (path_map r) C D q (S q (rel→relevant q (path_map l) (path_map r) h))) p,
  only right (folder o) (folder l) (folder r) so sl sr D (up D fd.only-folders)
      (λ q h. met-right (path_map o) (path_map l) (path_map r) C D q (S q (rel→relevant q (path_map l) (path_map r) h))) p,
)

-- so any pair of trees that meets them is ours
pub ours : (o l r c d : Forest) → Sorted o → Sorted l → Sorted r → Sorted c → Sorted d
    → Synchronization (path_map o) (path_map l) (path_map r) (path_map c) (path_map d) → (c ≡ new_left o l r) × (d ≡ new_right o l r)
ours o l r c d so sl sr sc sd S =
    let U = unique o l r so sl sr (path_map c) (path_map d) (filesystem c) (filesystem d) S in (
      un-folder _ _ (node-ext (folder c) (folder (new_left o l r)) sc (sorted-left o l r so sl sr) (λ p. (U p).0)),
      un-folder _ _ (node-ext (folder d) (folder (new_right o l r)) sd (sorted-right o l r so sl sr) (λ p. (U p).1)),
    )
