use Rattle.hub.proofs.hub.Hub+SoleRepository+R.over_new.Goals as goal

pub over-requires : goal.over-requires
over-requires g c = c.new_repositories_are_sound.ensures _ c.requires.0 c.requires.1 c.requires.2
