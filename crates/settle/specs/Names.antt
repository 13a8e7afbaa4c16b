-- The names to settle in a folder: every name that archive, left or right has there, in name order.
use Rattle.std.specs.Prelude.{List, [], ◌∷◌}
use Rattle.tree.specs.Name.{Name, cmp, by_order}
use Rattle.tree.specs.Forest.{Forest, Forest.end, Forest.leaf, Forest.dir}

abbrev pub Names : Type 0
Names = List Name

-- a name in its place, once
unfoldable pub insert : Name → Names → Names
insert n [] = n ∷ []
insert n (m ∷ ms) = by_order (cmp n m) (n ∷ (m ∷ ms)) (m ∷ ms) (m ∷ insert n ms)

unfoldable pub into : Forest → Names → Names
into end ns = ns
into (leaf n c s) ns = insert n (into s ns)
into (dir n k s) ns = insert n (into s ns)

unfoldable pub names : Forest → Forest → Forest → Names
names o l r = into o (into l (into r []))
