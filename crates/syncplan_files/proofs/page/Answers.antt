-- `syncplan_files::page` meets its contract: by the law of a repeated number's length, with none of its numbers written out.
use Rattle.std.proofs.Common.{ℕ, sym}
use Rattle.std.proofs.lemmas.List.{length-replicate}
use Rattle.syncplan_files.proofs.page.Goals as goal

pub returns : goal.returns
returns c = sym (length-replicate {A = ℕ} 1048576 0)
