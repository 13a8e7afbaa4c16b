-- A tree's text row by row, as the writer goes: the number of open folders stands for the rows before.
use Rattle.std.specs.Prelude.{List, [], ◌∷◌, ◌++◌, cond, eqb, drop, ℕ, zero, suc, ◌+◌, ◌-◌}
use Rattle.tree.specs.Forest.{Content}
use Rattle.table_row.specs.Table.{Row, rows, depth, kind, name, content}
use Rattle.listing.specs.Bytes.{text}
use Rattle.listing.specs.Writing.{name_text, size_text, digest_text, dir_line, file_line}

-- a file's line after its name
unfoldable pub content_text : Content → List ℕ
content_text c = text " type=file size=" ++ (size_text c ++ (text " sha256digest=" ++ (digest_text c ++ text "\n")))

-- a row's line
unfoldable pub line_of : Row → List ℕ
line_of r = cond (eqb (kind r) 0) (dir_line (name_text (name r))) (file_line (name r) (content r))

-- .. for each of n folders
unfoldable pub dots : ℕ → List ℕ
dots zero = []
dots (suc n) = text "..\n" ++ dots n

-- the folders that are open after a row, the root counted
unfoldable pub opened : Row → ℕ
opened r = cond (eqb (kind r) 0) (depth r + 1) (depth r)

-- the lines of rows before which n folders are open: each that a row does not stand in ends before it, the rest at the end
unfoldable pub lines_from : ℕ → List Row → List ℕ
lines_from n [] = dots n
lines_from n (r ∷ rs) = dots (n - depth r) ++ (line_of r ++ lines_from (opened r) rs)

-- #mtree, the root, and the rows after it
unfoldable pub text_by_rows : List ℕ → List ℕ
text_by_rows w = text "#mtree\n. type=dir\n" ++ lines_from 1 (drop 1 (rows w))
