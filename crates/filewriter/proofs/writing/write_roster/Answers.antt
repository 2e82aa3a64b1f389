use Rattle.filewriter.proofs.Returns.{round_trip}
use Rattle.filewriter.proofs.Notes.{notes_left_out}
use Rattle.filewriter.proofs.writing.write_roster.Goals as goal

pub returns-then-size-out-clause-round_trip : goal.returns-then-size-out-clause-round_trip
returns-then-size-out-clause-round_trip c = round_trip

pub returns-then-size-out-clause-notes : goal.returns-then-size-out-clause-notes
returns-then-size-out-clause-notes c = notes_left_out

pub returns-clause-round_trip : goal.returns-clause-round_trip
returns-clause-round_trip c = round_trip

pub returns-clause-notes : goal.returns-clause-notes
returns-clause-notes c = notes_left_out
