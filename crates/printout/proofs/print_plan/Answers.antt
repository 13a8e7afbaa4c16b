-- `print_plan` meets its contract: the first refused file, or the plan of the three.
use lib.ListN.{length-replicate}
use Prim.Native.Nat.{ℕ}
use Rattle.listing_spell.proofs.Poured.{puts-within}
use Rattle.printout_text.proofs.Files.{all_read, no-archive, no-left, no-right, not_taken, taken, taken-part}
use native.Mathlib.Omega.{arith}
use Rattle.printout.proofs.print_plan.Goals as goal

pub overflow_mul-o : goal.overflow_mul-o
overflow_mul-o c = let h = (taken _ _ _ _ _ c.read_file.ensures c.in-Ok.is).few in omega arith

pub slice_bounds-o-end : goal.slice_bounds-o-end
slice_bounds-o-end c = (taken-part (taken _ _ _ _ _ c.read_file.ensures c.in-Ok.is) c.read_file.auto.table (length-replicate {A = ℕ} 2560 0)).0

pub slice_bounds-put_run-end : goal.slice_bounds-put_run-end
slice_bounds-put_run-end c = (taken-part (taken _ _ _ _ _ c.read_file.ensures c.in-Ok.is) c.read_file.auto.table (length-replicate {A = ℕ} 2560 0)).1

pub overflow_mul-l : goal.overflow_mul-l
overflow_mul-l c = let h = (taken _ _ _ _ _ c.read_file-2.ensures c.in-Ok-read_file.is).few in omega arith

pub slice_bounds-l-end : goal.slice_bounds-l-end
slice_bounds-l-end c = (taken-part (taken _ _ _ _ _ c.read_file-2.ensures c.in-Ok-read_file.is) c.read_file-2.auto.table (length-replicate {A = ℕ} 2560 0)).0

pub slice_bounds-put_run-end-2 : goal.slice_bounds-put_run-end-2
slice_bounds-put_run-end-2 c = (taken-part (taken _ _ _ _ _ c.read_file-2.ensures c.in-Ok-read_file.is) c.read_file-2.auto.table (length-replicate {A = ℕ} 2560 0)).1

pub overflow_mul-r : goal.overflow_mul-r
overflow_mul-r c = let h = (taken _ _ _ _ _ c.read_file-3.ensures c.in-Ok-read_file-2.is).few in omega arith

pub slice_bounds-r-end : goal.slice_bounds-r-end
slice_bounds-r-end c = (taken-part (taken _ _ _ _ _ c.read_file-3.ensures c.in-Ok-read_file-2.is) c.read_file-3.auto.table (length-replicate {A = ℕ} 2560 0)).0

pub slice_bounds-put_run-end-3 : goal.slice_bounds-put_run-end-3
slice_bounds-put_run-end-3 c = (taken-part (taken _ _ _ _ _ c.read_file-3.ensures c.in-Ok-read_file-2.is) c.read_file-3.auto.table (length-replicate {A = ℕ} 2560 0)).1

pub put_run-requires : goal.put_run-requires
put_run-requires c =
    ((taken _ _ _ _ _ c.read_file.ensures c.in-Ok.is).table, (taken _ _ _ _ _ c.read_file-2.ensures c.in-Ok-read_file.is).table, (taken _ _ _ _ _ c.read_file-3.ensures c.in-Ok-read_file-2.is).table)

pub returns : goal.returns
returns c =
    let s = c.args in
    let o = taken _ _ _ _ _ c.read_file.ensures c.in-Ok.is in
    let l = taken _ _ _ _ _ c.read_file-2.ensures c.in-Ok-read_file.is in
    let r = taken _ _ _ _ _ c.read_file-3.ensures c.in-Ok-read_file-2.is in
    rw (all_read s.profile s.archive.now s.left.now s.right.now o.tree o.read l.tree l.read r.tree r.read)
    (rw (o.same, l.same, r.same) at c.put_run.ensures)

pub returns-in-Err-read_file-2 : goal.returns-in-Err-read_file-2
returns-in-Err-read_file-2 c =
    let s = c.args in
    let o = taken _ _ _ _ _ c.read_file.ensures c.in-Ok.is in
    let l = taken _ _ _ _ _ c.read_file-2.ensures c.in-Ok-read_file.is in
    rw (no-right s.profile s.archive.now s.left.now s.right.now o.tree o.read l.tree l.read _ _ (not_taken _ _ _ _ _ c.read_file-3.ensures c.in-Err-read_file-2.is))
    (puts-within 1048576 (omega arith) c.put_refused-in-Err-read_file-2.ensures)

pub returns-in-Err-read_file : goal.returns-in-Err-read_file
returns-in-Err-read_file c =
    let s = c.args in
    let o = taken _ _ _ _ _ c.read_file.ensures c.in-Ok.is in
    rw (no-left s.profile s.archive.now s.left.now s.right.now o.tree o.read _ _ (not_taken _ _ _ _ _ c.read_file-2.ensures c.in-Err-read_file.is))
    (puts-within 1048576 (omega arith) c.put_refused-in-Err-read_file.ensures)

pub returns-in-Err : goal.returns-in-Err
returns-in-Err c =
    let s = c.args in
    rw (no-archive s.profile s.archive.now s.left.now s.right.now _ _ (not_taken _ _ _ _ _ c.read_file.ensures c.in-Err.is))
    (puts-within 1048576 (omega arith) c.put_refused.ensures)
