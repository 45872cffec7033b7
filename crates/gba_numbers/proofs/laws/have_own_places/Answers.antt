use Rattle.gba_numbers.proofs.OwnPlaces.{have_own_places}
use Rattle.gba_numbers.proofs.laws.have_own_places.Goals as goal

pub returns : goal.returns
returns c = have_own_places
