-- A table of keys: every row's name becomes its key, the other words stay. And a key word by word.
use Rattle.std.specs.Prelude.{List, map, ℕ}
use Rattle.tree.specs.declared.Profile.{Profile}
use Rattle.tree.specs.declared.Profile.TheVariants.{Exact, Folded}
use Rattle.tree.specs.Key.{lower_word, key}
use Rattle.table_row.specs.Table.{Row, rows, flat, name, called}

-- a word of a name as it stands in the name's key
abbrev pub key_word : Profile → ℕ → ℕ
key_word Exact x = x
key_word Folded x = lower_word x

abbrev pub keyed_row : Profile → Row → Row
keyed_row p r = called (key p (name r)) r

unfoldable pub keyed : Profile → List ℕ → List ℕ
keyed p w = flat (map (keyed_row p) (rows w))
