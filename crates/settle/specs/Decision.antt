-- The decision at a relevant path that is not a folder on both sides: document 01's four lines, the first that fits.
use Rattle.std.specs.Prelude.{Bool, true, false}
use Rattle.tree.specs.Forest.{Node}
use Rattle.tree.specs.Same.{same_node}

pub data Decision : Type 0 where
  agreed left_gets right_gets clash : Decision

-- left is as right; left is as the archive; right is as the archive
abbrev pub rule : Bool → Bool → Bool → Decision
rule true a b = agreed
rule false true b = left_gets
rule false false true = right_gets
rule false false false = clash

unfoldable pub decide : Node → Node → Node → Decision
decide o l r = rule (same_node l r) (same_node l o) (same_node r o)
