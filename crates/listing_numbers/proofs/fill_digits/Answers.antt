-- `listing_numbers::fill_digits` meets its contract: k digits may still stand before those that are filled in.
use mathlib.Core.Path.{◌≡◌, sym, ap, ◌∙◌}
use lib.ListN.{drop, length-set, drop_of_length-le}
use Prim.Native.Nat.{ℕ, ◌-◌}
use borrow.Author.Rules.{rules}
use Rattle.listing.specs.Writing.{decimal}
use Rattle.listing_spell.proofs.Digits.{first-digit, next-digit}
use Rattle.listing_numbers.proofs.fill_digits.Goals as goal

pub loop-k-init : goal.loop-k-init
loop-k-init c =
    (search rules, search rules, ap (decimal 20 c.args.n) (drop_of_length-le c.args.digits.now {i = 20} (search rules)))

pub returns-then-m-lt10 : goal.returns-then-m-lt10
returns-then-m-lt10 c =
    let l = c.loop-k in
    (search rules, simp length-set (search rules), first-digit l.digits (l.k - 1) l.m (search rules) (search rules) (search rules) ∙ l.invariant.2)

pub loop-k-preserved : goal.loop-k-preserved
loop-k-preserved c =
    let l = c.loop-k in
    (search rules, simp length-set (search rules), next-digit l.digits (l.k - 1) l.m (search rules) (search rules) (search rules) ∙ l.invariant.2)

pub returns : goal.returns
unfolding decimal
returns c =
    let l = c.loop-k in
    let e : l.k ≡ 0 = search rules in
    (search rules, search rules, ap (λ (k : ℕ). decimal k l.m (drop k l.digits)) (sym e) ∙ l.invariant.2)
