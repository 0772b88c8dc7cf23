use Rattle.butterfly64.proofs.+up_in_place.Given as goal

abbrev pub decreases-up_in_place : goal.decreases-up_in_place
decreases-up_in_place l = l.level
