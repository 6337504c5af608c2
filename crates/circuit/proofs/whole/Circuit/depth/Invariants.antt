use Rattle.std.proofs.Common.{◌≡◌, ◌≤◌, length, take, drop, vec_items}
use Rattle.circuit.specs.Survey.{highest, levels_from, levels}
use Rattle.circuit.proofs.whole.Circuit.depth.Given as goal

abbrev pub invariant-loop-i : goal.invariant-loop-i
invariant-loop-i l =
    record {
      whole : length l.levels ≡ 1024;
      low : l.top ≤ l.i;
      top : l.top ≡ highest (take l.i l.levels);
      so_far : levels_from (take l.i l.levels) (drop l.i (vec_items l.self.draft.lines)) ≡ levels (vec_items l.self.draft.lines);
    }
