use Rattle.butterfly64.proofs.+down_in_place.Given as goal

abbrev pub decreases-down_in_place : goal.decreases-down_in_place
decreases-down_in_place l = l.level
