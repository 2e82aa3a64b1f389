use Rattle.calls.proofs.carry.carry_one.Goals as goal

-- place says what its result means, and that its result is this answer
pub returns-in-Place-clause-right : goal.returns-in-Place-clause-right
returns-in-Place-clause-right g c = rw c.in-Place.is (rw c.place.ensures.answer at c.place.ensures.means)
