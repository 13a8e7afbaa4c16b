-- TR 507, section 4, over path functions: O the archive, A and B the two sides before, C and D after.
use Rattle.std.specs.Prelude.{◌≡◌, [], ◌∷◌, ◌++◌, ◌⊎◌}
use Rattle.tree.specs.Name.{Name}
use Rattle.tree.specs.Forest.{TreePath}
use Rattle.tree.specs.Value.{Value.is_folder, PathMap}

-- Definition 4.1.1
abbrev pub Relevant : PathMap → PathMap → TreePath → Type 0
Relevant A B p = (p ≡ []) ⊎ ((q : TreePath) × (x : Name) × (p ≡ q ++ (x ∷ [])) × (A q ≡ is_folder) × (B q ≡ is_folder))

-- S/p = T/p
abbrev pub Equal : PathMap → PathMap → TreePath → Type 0
Equal S T p = (q : TreePath) → S (p ++ q) ≡ T (p ++ q)

-- an exact update detector: a path is dirty exactly when its subtree differs from the archive's
abbrev pub Clean : PathMap → PathMap → TreePath → Type 0
Clean O S p = Equal O S p

abbrev pub Dirty : PathMap → PathMap → TreePath → Type 0
Dirty O S p = ¬ (Clean O S p)

-- Definition 4.1.2, the four requirements at one path
pub record Met (O A B C D : PathMap) (p : TreePath) : Type 0 where
  pub same : A p ≡ B p → (C p ≡ A p) × (D p ≡ B p)
  pub left-clean : Clean O A p → Equal C B p × Equal D B p
  pub right-clean : Clean O B p → Equal C A p × Equal D A p
  pub clashing : Dirty O A p → Dirty O B p → ¬ (A p ≡ B p) → Equal C A p × Equal D B p

-- (C, D) is a synchronization of (A, B)
abbrev pub Synchronization : PathMap → PathMap → PathMap → PathMap → PathMap → Type 0
Synchronization O A B C D = (p : TreePath) → Relevant A B p → Met O A B C D p
