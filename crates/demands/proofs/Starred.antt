-- "The starred samples, some ten with the cases they name, are proved together from the definitions as one checked list": `starred`.
use native.Mathlib.Omega.{arith}
use Rattle.table.proofs.TableSamples.{least_accepted, empty_slice_promise}
use Rattle.demands.specs.Sample.{AllHold, none, ◌and◌}
use Rattle.demands.specs.Starred.{starred}
use Rattle.demands.proofs.StarredSamples.{legs_says, legs_leaves, legs_too_many, legs_lists, legs_prints, itself_says, itself_leaves, late_says, late_leaves}
use Rattle.demands.proofs.StarredSamples.{cells_32_says, cells_32_leaves, cells_33_misread, cells_33_faulty, v15_says, v15_leaves, v16_misread, v16_faulty}

pub starred_hold : AllHold starred
starred_hold =
    legs_says and legs_leaves 35 (omega arith) and legs_too_many and legs_lists 35 135 (omega arith) (omega arith) and legs_prints
    and least_accepted and empty_slice_promise
    and itself_says and itself_leaves
    and late_says and late_leaves
    and cells_32_says and cells_32_leaves and cells_33_misread and cells_33_faulty
    and v15_says and v15_leaves and v16_misread and v16_faulty
    and none
