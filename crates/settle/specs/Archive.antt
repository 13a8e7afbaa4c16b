-- The new archive N, stated as TR 507 states the new sides: what was agreed or moved, and at a clash the old entry whole.
use Rattle.std.specs.Prelude.{◌≡◌}
use Rattle.tree.specs.Forest.{TreePath}
use Rattle.tree.specs.Value.{PathMap}
use Rattle.settle.specs.Tr507.{Relevant, Equal, Clean, Dirty}

-- at one path, where K is what the result keeps at a clash; the new archive keeps O, the new sides keep their own
pub record Target (O A B K S : PathMap) (p : TreePath) : Type 0 where
  pub same : A p ≡ B p → S p ≡ A p
  pub left-clean : Clean O A p → Equal S B p
  pub right-clean : Clean O B p → Equal S A p
  pub clashing : Dirty O A p → Dirty O B p → ¬ (A p ≡ B p) → Equal S K p

abbrev pub Remembers : PathMap → PathMap → PathMap → PathMap → Type 0
Remembers O A B N = (p : TreePath) → Relevant A B p → Target O A B O N p
