use Rattle.butterfly64.proofs.many_eights.+down_eights.Given as goal

abbrev pub decreases-down_eights : goal.decreases-down_eights
decreases-down_eights l = l.level
