-- Two elements compare wherever their messages stand.
use Rattle.same.proofs.walks.BlockElementsIterStream.same.Goals as goal

pub returns : goal.returns
returns c = c.same_element.ensures c.args.x.message c.args.y.message
