-- `noted` meets its contract: a keyword is one of the three, or none of them by its bytes or its length.
use mathlib.Core.Path.{sym, ◌∙◌}
use native.Mathlib.Omega.{arith}
use Rattle.tree.specs.Name.{cmp}
use Rattle.tree.specs.Same.{same_words}
use Rattle.tree.proofs.Same.{same_words-eq}
use Rattle.table_row.proofs.Compare.{alike-lengths}
use Rattle.listing.specs.Bytes.{text}
use Rattle.listing_keywords.proofs.noted.Goals as goal

pub returns-then-same_bytes : goal.returns-then-same_bytes
unfolding same_words cmp
returns-then-same_bytes c =
    let k = c.args.key.now in
    rw (same_words-eq k (text "type") (sym c.same_bytes.ensures ∙ c.if-same_bytes.true), c.seen.ensures)

pub returns-then-same_bytes-2 : goal.returns-then-same_bytes-2
unfolding same_words cmp
returns-then-same_bytes-2 c =
    let k = c.args.key.now in
    rw (same_words-eq k (text "size") (sym c.same_bytes-then-key-eq4.ensures ∙ c.if-same_bytes-2.true), c.seen-then-same_bytes-2.ensures)

pub returns-then-key-eq4 : goal.returns-then-key-eq4
returns-then-key-eq4 c =
    let k = c.args.key.now in
    let no-type = sym c.same_bytes.ensures ∙ c.if-same_bytes.false in
    let no_size = sym c.same_bytes-then-key-eq4.ensures ∙ c.if-same_bytes-2.false in
    rw (no-type, no_size, sym (alike-lengths k (text "sha256digest") (λ e. omega arith)))

pub returns-then-same_bytes-3 : goal.returns-then-same_bytes-3
unfolding same_words cmp
returns-then-same_bytes-3 c =
    let k = c.args.key.now in
    rw (same_words-eq k (text "sha256digest") (sym c.same_bytes-2.ensures ∙ c.if-same_bytes-3.true), c.seen-then-same_bytes-3.ensures)

pub returns : goal.returns
returns c =
    let k = c.args.key.now in
    let no-type = sym (alike-lengths k (text "type") c.if-key-eq4.false) in
    let no_size = sym (alike-lengths k (text "size") c.if-key-eq4.false) in
    rw (no-type, no_size, sym c.same_bytes-2.ensures ∙ c.if-same_bytes-3.false)
