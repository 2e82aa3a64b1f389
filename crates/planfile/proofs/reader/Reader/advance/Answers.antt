use Rattle.std.proofs.Common.{sym, arith, length-drop}
use Rattle.std.proofs.lemmas.List.{drop-drop}
use Rattle.planfile.proofs.reader.Reader.advance.Goals as goal

pub returns : goal.returns
returns c =
    record {
      after = sym (drop-drop c.args.size c.args.self.now.at c.args.self.now.bytes.now);
      shorter = simp length-drop (omega arith);
    }
