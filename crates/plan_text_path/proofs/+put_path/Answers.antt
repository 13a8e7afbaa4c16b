-- `plan_text_path::put_path` meets its contract: the path of the folder above, a slash, the name.
use native.Mathlib.Omega.{arith}
use borrow.Author.Rules.{rules}
use Prim.Native.Nat.{◌+◌, ◌*◌}
use Rattle.table_route.proofs.Above.{folder-before}
use Rattle.listing_spell.proofs.Poured.{wrote-within, rest-all, rest_less, rest-last}
use Rattle.plan_text.proofs.Path.{root-text, row-text}
use Rattle.plan_text_path.proofs.+put_path.Goals as goal

pub returns-then-i-eq0 : goal.returns-then-i-eq0
returns-then-i-eq0 t c =
    let a = c.args in
    rw (root-text a.t.now a.i (search rules)) (wrote-within (129 * a.i + 1) (omega arith) c.put_all.ensures)

pub put_path-requires : goal.put_path-requires
put_path-requires t c =
    let h = folder-before c.args.t.now c.args.i c.if-i-eq0.false in
    let e = c.folder_of.ensures in
    (omega arith, (omega arith, omega arith))

pub put_all-requires-2 : goal.put_all-requires-2
put_all-requires-2 t c =
    omega (arith, folder-before c.args.t.now c.args.i c.if-i-eq0.false, c.folder_of.ensures, c.put_path.ensures.puts.near)

pub put_name-requires : goal.put_name-requires
put_name-requires t c =
    (search rules, omega (arith, folder-before c.args.t.now c.args.i c.if-i-eq0.false, c.folder_of.ensures, c.put_path.ensures.puts.near, c.put_all-2.ensures.puts.near))

pub returns : goal.returns
returns t c =
    let a = c.args in
    let u = folder-before a.t.now a.i c.if-i-eq0.false in
    let e = c.folder_of.ensures in
    rw (row-text a.t.now a.i c.if-i-eq0.false)
    (rest-last (129 * a.i + 1)
    (rest_less _ (rest_less _ (rest-all _ _) (rw e at c.put_path.ensures)) c.put_all-2.ensures)
    (rw c.name.ensures.0 at c.put_name.ensures)
    (omega (arith, c.put_path.ensures.puts.near, c.put_all-2.ensures.puts.near, c.put_name.ensures.puts.near)))
