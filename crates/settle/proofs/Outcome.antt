-- Two outcomes are equal when their parts are.
use mathlib.Core.Path.{◌≡◌}
use Rattle.tree.specs.Forest.{Forest, Node.folder}
use Rattle.settle.specs.Results.{Outcome}

pub outcome-ext : (u v : Outcome) → u.lines ≡ v.lines → u.archive ≡ v.archive → u.left ≡ v.left → u.right ≡ v.right → u ≡ v
outcome-ext u v a b c d = λ i. record { lines = a i; archive = b i; left = c i; right = d i }

pub un-folder : (f g : Forest) → folder f ≡ folder g → f ≡ g
un-folder f g e = cc
