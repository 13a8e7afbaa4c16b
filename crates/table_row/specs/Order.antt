-- The order of two names as the code answers it.
use Prim.Native.Nat.{Ordering}
use Rattle.std.specs.declared.cmp.Ordering.{Ordering as Order}
use Rattle.std.specs.declared.cmp.Ordering.TheVariants.{Less, Equal, Greater}

abbrev pub ordered : Ordering → Order
ordered Ordering.lt = Less
ordered Ordering.eq = Equal
ordered Ordering.gt = Greater
