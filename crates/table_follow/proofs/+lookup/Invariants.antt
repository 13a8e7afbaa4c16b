-- `lookup` follows the path; the names left fall.
use Rattle.std.proofs.Common.{length}
use Rattle.table_follow.proofs.+lookup.Given as goal

abbrev pub decreases-lookup : goal.decreases-lookup
decreases-lookup l = length l.path.now
