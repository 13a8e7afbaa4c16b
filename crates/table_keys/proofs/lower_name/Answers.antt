-- `table_keys::lower_name` meets its contract: the words before the word are done, and the others are as they were.
use Rattle.std.proofs.Common.{rules, refl, sym, ◌≡◌, List, ℕ, length, map, take, drop, get_or, set, ap, ◌∙◌, ◌+◌, ◌-◌, ◌≤◌}
use native.Mathlib.Omega.{arith}
use mathlib.Core.List.{◌++◌, append-nil}
use lib.ListN.{length-take, length-drop, drop_of_length-le}
use lib.Seq.{take_all, paste}
use Rattle.std.proofs.lemmas.List.Edits.{map_over_more}
use Rattle.std.proofs.lemmas.List.{get_or_default}
use Rattle.std.proofs.lemmas.Slice.{put_mid-paste}
use Rattle.tree.specs.Key.{lower_word}
use Rattle.table_row.proofs.Buffer.{written-paste}
use Rattle.table_compare.proofs.Letters.{length-lower}
use Rattle.table_keys.proofs.lower_name.Goals as goal

pub loop-word-init : goal.loop-word-init
loop-word-init c = refl

pub loop-word-preserved : goal.loop-word-preserved
loop-word-preserved c =
    let l = c.loop-word in
    let x = get_or l.word-items l.word-index 0 in
    let h = c.loop-word-test.true in
    let e : x ≡ get_or l.word-items l.word-index x = get_or_default l.word-items l.word-index 0 x (search rules) in
    ap (set l.word-items l.word-index) c.lower_word.ensures
    ∙ map_over_more lower_word _ l.word-items l.word-index x h l.invariant e

-- all words are done
done : (f : ℕ → ℕ) (s : List ℕ) (k : ℕ) → length s ≤ k → map f (take k s) ++ drop k s ≡ map f s
done f s k h = rw (take_all k s h, drop_of_length-le s h, append-nil)

pub returns : goal.returns
returns c =
    let a = c.args in
    let t = a.t.now in
    let s = take 8 (drop a.at t) in
    let h = c.requires in
    let z : a.at + 8 - a.at ≡ 8 = omega arith in
    let n : length (map lower_word s) ≡ 8 = length-lower s ∙ simp (length-take, length-drop) (omega arith) in
    let e : c.loop-word.word-items ≡ map lower_word s = rw z at (c.loop-word.invariant ∙ done lower_word _ c.loop-word.word-index c.loop-word-test.false) in
    put_mid-paste a.at _ t c.loop-word.word-items (map lower_word s) 8 e (sym z) (sym n)
    ∙ ap (paste t a.at (map lower_word s)) (sym n)
    ∙ written-paste t (map lower_word s) a.at
