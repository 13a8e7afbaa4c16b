-- `plan_text_path::put_path` meets its contract: the path of the folder above, a slash, the name; the rows before fall.
use Rattle.plan_text_path.proofs.+put_path.Given as goal

abbrev pub decreases-put_path : goal.decreases-put_path
decreases-put_path l = l.i
