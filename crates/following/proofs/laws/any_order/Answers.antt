use Rattle.following.proofs.Orders.{any_order}
use Rattle.following.proofs.laws.any_order.Goals as goal

pub returns : goal.returns
returns c o size ahead xs ys is = any_order o size ahead xs ys is.some
