use Rattle.image_check.proofs.making.certify.Goals as goal

pub returns-clause-bad : goal.returns-clause-bad
returns-clause-bad g c = λ image told. c.certificate_of.ensures.bad _ c.in_ok-image.ensures.ok image told
