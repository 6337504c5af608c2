use Rattle.std.proofs.Common.{◌≡◌, ◌^◌, ◌<◌, drop}
use Rattle.textfiles.specs.Cursors.{spot}
use Rattle.textfiles.specs.Vectors.{bits_on, vector_of}
use Rattle.textfiles.proofs.vectors.read_vector.Given as goal

abbrev pub invariant-loop-j : goal.invariant-loop-j
invariant-loop-j l = (l.vector < 2 ^ l.j) × (bits_on l.inputs (spot l.item) l.j l.vector (drop l.j l.item.rest.now) ≡ vector_of l.inputs (spot l.item))
