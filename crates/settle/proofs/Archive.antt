-- The new archive remembers what document 01 asks, no other tree does, and wherever the sides agree or a move was listed
-- it holds what both sides now hold.
use mathlib.Core.Logic.{◌⊎◌, inl, inr}
use mathlib.Core.Path.{◌∙◌, ◌≡◌, sym}
use Rattle.tree.specs.Forest.{TreePath, Forest, Node.folder, Sorted}
use Rattle.tree.specs.Value.{Value.is_folder, PathMap, Filesystem, path_map}
use Rattle.tree.proofs.Value.{node-ext}
use Rattle.tree.proofs.Filesystem.{up, filesystem}
use Rattle.settle.specs.Plan.{settle}
use Rattle.settle.specs.Results.{new_left, new_right, new_archive}
use Rattle.settle.specs.Tr507.{Relevant, Equal, Clean}
use Rattle.settle.specs.Archive.{Remembers}
use Rattle.settle.proofs.Outcome.{un-folder}
use Rattle.settle.proofs.Picks.{Result.archive}
use Rattle.settle.proofs.Relevant.{rel→relevant}
use Rattle.settle.proofs.Sorted.{sorted-archive}
use Rattle.settle.proofs.Target.{meets, only}
use Rattle.settle.proofs.Tr507.{relevant, sound}

-- SOUND
pub remembers : (o l r : Forest) → Sorted o → Sorted l → Sorted r → Remembers (path_map o) (path_map l) (path_map r) (path_map (new_archive o l r))
unfolding new_archive settle
remembers o l r so sl sr p h = meets archive (folder o) (folder l) (folder r) so sl sr p (relevant l r p h)

-- UNIQUE
pub unique : (o l r : Forest) → Sorted o → Sorted l → Sorted r → (N : PathMap) → Filesystem N → Remembers (path_map o) (path_map l) (path_map r) N
    → (p : TreePath) → N p ≡ path_map (new_archive o l r) p
unfolding new_archive settle
unique o l r so sl sr N f W =
    only archive (folder o) (folder l) (folder r) so sl sr N (up N f.only-folders) (λ q h. W q (rel→relevant q (path_map l) (path_map r) h))

pub ours : (o l r a : Forest) → Sorted o → Sorted l → Sorted r → Sorted a → Remembers (path_map o) (path_map l) (path_map r) (path_map a)
    → a ≡ new_archive o l r
ours o l r a so sl sr sa W =
    un-folder _ _ (node-ext (folder a) (folder (new_archive o l r)) sa (sorted-archive o l r so sl sr)
    (unique o l r so sl sr (path_map a) (filesystem a) W))

-- in document 01's words, at a relevant path
module _ (o l r : Forest) (so : Sorted o) (sl : Sorted l) (sr : Sorted r) (p : TreePath) (h : Relevant (path_map l) (path_map r) p) where
  pub folders : path_map l p ≡ is_folder → path_map r p ≡ is_folder → path_map (new_archive o l r) p ≡ is_folder
  folders a b = (remembers o l r so sl sr p h).same (a ∙ sym b) ∙ a

  -- an agreed path holds what both sides now hold
  pub agreed : path_map l p ≡ path_map r p
      → (path_map (new_archive o l r) p ≡ path_map (new_left o l r) p) × (path_map (new_archive o l r) p ≡ path_map (new_right o l r) p)
  agreed e =
      let a = (remembers o l r so sl sr p h).same e in let m = (sound o l r so sl sr p h).same e in
      (a ∙ sym m.0, a ∙ e ∙ sym m.1)

  -- and so does a moved one, with all that is beneath it
  pub moved : Clean (path_map o) (path_map l) p ⊎ Clean (path_map o) (path_map r) p
      → Equal (path_map (new_archive o l r)) (path_map (new_left o l r)) p × Equal (path_map (new_archive o l r)) (path_map (new_right o l r)) p
  moved (inl c) =
      let a = (remembers o l r so sl sr p h).left-clean c in let m = (sound o l r so sl sr p h).left-clean c in
      (λ q. a q ∙ sym (m.0 q), λ q. a q ∙ sym (m.1 q))
  moved (inr c) =
      let a = (remembers o l r so sl sr p h).right-clean c in let m = (sound o l r so sl sr p h).right-clean c in
      (λ q. a q ∙ sym (m.0 q), λ q. a q ∙ sym (m.1 q))
