-- `table_names::byte_of` meets its contract: a word's bytes, one of which is taken.
use Rattle.std.proofs.Common.{rules, ap, ◌∙◌, List, get_or, ℕ}
use Rattle.table_names.proofs.Words.{be-bytes}
use Rattle.table_names.proofs.byte_of.Goals as goal

pub returns : goal.returns
returns c =
    let a = c.args in
    ap (λ (l : List ℕ). get_or l a.j 0) (c.to_be_bytes.ensures ∙ be-bytes a.x (search rules))
