-- `low_bytes` meets its contract, byte by byte.
use borrow.Author.Tests.{ne_eqb}
use Rattle.table_names.specs.Low.{low_bytes}
use Rattle.table_names.proofs.low_bytes.Goals as goal

pub returns-in-0 : goal.returns-in-0
unfolding low_bytes
returns-in-0 c = rw c.in-0.is

pub returns-in-1 : goal.returns-in-1
unfolding low_bytes
returns-in-1 c = rw c.in-1.is

pub returns-in-2 : goal.returns-in-2
unfolding low_bytes
returns-in-2 c = rw c.in-2.is

pub returns-in_default : goal.returns-in_default
unfolding low_bytes
returns-in_default c =
    let n = c.in_default.in_default-own.rest in
    rw (ne_eqb _ 0 n.0.0.1, ne_eqb _ 1 n.0.1, ne_eqb _ 2 n.1)
