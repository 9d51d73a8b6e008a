use Rattle.std.proofs.Common.{◌+◌, ◌*◌, false}
use Rattle.model.specs.Sizes.{most_places, most_moves}
use Rattle.net_text.proofs.Joining.{same_all}
use Rattle.net_text.proofs.joined.Joined.none.Goals as goal

pub returns : goal.returns
returns c = λ p t. same_all (most_places * most_moves) (t * most_places + p) false
