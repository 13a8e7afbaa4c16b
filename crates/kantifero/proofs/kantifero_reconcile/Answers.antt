-- `kantifero::kantifero_reconcile` meets its contract: the counts have 32 bits, and the buffers are the run's.
use Rattle.kantifero_calls.proofs.Counts.{run-narrow}
use Rattle.kantifero_calls.proofs.Says.{reconcile-call}
use Rattle.kantifero.proofs.kantifero_reconcile.Goals as goal

pub reconciled_words-words-requires : goal.reconciled_words-words-requires
reconciled_words-words-requires c =
    rw c.reconcile_plain-ran.ensures.answered
    (run-narrow _ _ _ _ _ c.type_inv.archive c.type_inv.left c.type_inv.right)

pub returns : goal.returns
returns c =
    rw (← c.profile_of.ensures)
    (reconcile-call _ _ _ _ _ _ _ _ _ c.reconcile_plain-ran.result.tally c.reconcile_plain-ran.result.answer _ c.reconcile_plain-ran.ensures c.reconciled_words-words.ensures)
