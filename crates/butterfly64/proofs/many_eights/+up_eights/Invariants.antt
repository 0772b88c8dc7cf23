use Rattle.butterfly64.proofs.many_eights.+up_eights.Given as goal

abbrev pub decreases-up_eights : goal.decreases-up_eights
decreases-up_eights l = l.level
