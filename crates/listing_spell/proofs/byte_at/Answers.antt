-- `listing_spell::byte_at` meets its contract: byte k is one of word k / 4.
use Rattle.std.proofs.Common.{rules, arith, ap, ◌∙◌, List, get_or, ℕ, ◌%◌, ◌/◌}
use Rattle.table_names.proofs.Words.{be-bytes, byte-is}
use Rattle.listing_spell.proofs.byte_at.Goals as goal

pub returns : goal.returns
returns c =
    let a = c.args in
    let x = get_or a.s.now (a.k / 4) 0 in
    ap (λ (l : List ℕ). get_or l (a.k % 4) 0) (c.to_be_bytes.ensures ∙ be-bytes x (omega (arith, c.type_inv.s (a.k / 4)))) ∙ byte-is a.s.now a.k (search rules)
