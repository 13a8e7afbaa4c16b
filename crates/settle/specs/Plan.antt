-- The plan: an item for each relevant path below the root, in preorder. A folder on both sides is settled by settling its
-- entries; any other entry is one item with what the three trees hold there.
use Rattle.std.specs.Prelude.{[], ◌∷◌}
use Rattle.tree.specs.Name.{Name, cmp, if_same}
use Rattle.tree.specs.Forest.{Forest, Forest.end, Forest.leaf, Forest.dir, Node, Node.absent, Node.file, Node.folder, find, kids}
use Rattle.settle.specs.Names.{Names, names}

pub data Plan : Type 0 where
  done : Plan
  item : Name → Node → Node → Node → Plan → Plan
  both : Name → Plan → Plan → Plan

-- an entry settled: as a single item, or as a folder on both sides with the plan of its entries
pub data Entry : Type 0 where
  single : Node → Node → Node → Entry
  pair : Plan → Entry

abbrev pub add_item : Name → Entry → Plan → Plan
add_item n (single o l r) s = item n o l r s
add_item n (pair k) s = both n k s

unfoldable pub plan_over : Names → (Name → Entry) → Plan
plan_over [] g = done
plan_over (n ∷ ns) g = add_item n (g n) (plan_over ns g)

-- left has the folder l here
abbrev pub settle_folder : Node → Forest → Node → (Forest → Plan) → Entry
settle_folder o l absent h = single o (folder l) absent
settle_folder o l (file c) h = single o (folder l) (file c)
settle_folder o l (folder r) h = pair (h r)

-- the entry called n of left's folder, settled against the archive's o and right's r. It recurs on left's forest
unfoldable pub settle_in : Forest → Name → Node → Node → Entry
settle_in end n o r = single o absent r
settle_in (leaf m c s) n o r = if_same (cmp n m) (single o (file c) r) (settle_in s n o r)
settle_in (dir m l s) n o r =
    if_same (cmp n m)
    (settle_folder o l r (λ r'. plan_over (names (kids o) l r') (λ n'. settle_in l n' (find n' (kids o)) (find n' r'))))
    (settle_in s n o r)

unfoldable pub plan : Forest → Forest → Forest → Plan
plan o l r = plan_over (names o l r) (λ n. settle_in l n (find n o) (find n r))

-- the same, read at one entry as document 01 has it; proofs/Plan shows that settle_in is settle of what left has there
unfoldable pub settle : Node → Node → Node → Entry
settle o absent r = single o absent r
settle o (file c) r = single o (file c) r
settle o (folder l) absent = single o (folder l) absent
settle o (folder l) (file c) = single o (folder l) (file c)
settle o (folder l) (folder r) = pair (plan (kids o) l r)
