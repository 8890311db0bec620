use Rattle.cut_laws.proofs.Flights.{flights_stay as law}
use Rattle.cut_laws.proofs.laws.runs.flights_stay.Goals as goal

pub returns : goal.returns
returns c = law
