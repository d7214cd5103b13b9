use mathlib.Core.Path.{ap}
use lib.ListN.{length}
use Rattle.listing.proofs.Room.{listing-fits}
use Rattle.listing.proofs.Lines.{refused-length}
use Rattle.listing.proofs.Listings.{too_long, short-enough, list_none, list_done}
use Rattle.digits.proofs.Texts.{decimal_two}
use Rattle.digits.proofs.Writes.{wrote_as}
use native.Mathlib.Omega.{arith}
use Rattle.listing.proofs.list.Goals as goal

pub put_refused-requires : goal.put_refused-requires
put_refused-requires c = omega (arith, refused-length 35, decimal_two 35 (omega arith))

pub put_message-requires : goal.put_message-requires
put_message-requires c = let image = c.args.image.now in
    omega (arith, listing-fits image, ap length (short-enough image (omega arith) c.read.ensures))

pub returns-then-out-lt-ROOM-clause-value : goal.returns-then-out-lt-ROOM-clause-value
returns-then-out-lt-ROOM-clause-value c = (list_none c.args.image.now c.args.out.now (omega arith)).0

pub returns-then-out-lt-ROOM-clause-out_after : goal.returns-then-out-lt-ROOM-clause-out_after
returns-then-out-lt-ROOM-clause-out_after c = (list_none c.args.image.now c.args.out.now (omega arith)).1

pub returns-then-image-gt-IMAGE-clause-value : goal.returns-then-image-gt-IMAGE-clause-value
returns-then-image-gt-IMAGE-clause-value c = let image = c.args.image.now in
    (list_done image c.args.out.now (omega arith) (wrote_as (too_long image (omega arith)) c.put_refused.ensures)).0

pub returns-then-image-gt-IMAGE-clause-out_after : goal.returns-then-image-gt-IMAGE-clause-out_after
returns-then-image-gt-IMAGE-clause-out_after c = let image = c.args.image.now in
    (list_done image c.args.out.now (omega arith) (wrote_as (too_long image (omega arith)) c.put_refused.ensures)).1

pub returns-clause-value : goal.returns-clause-value
returns-clause-value c = let image = c.args.image.now in
    (list_done image c.args.out.now (omega arith) (wrote_as (short-enough image (omega arith) c.read.ensures) c.put_message.ensures)).0

pub returns-clause-out_after : goal.returns-clause-out_after
returns-clause-out_after c = let image = c.args.image.now in
    (list_done image c.args.out.now (omega arith) (wrote_as (short-enough image (omega arith) c.read.ensures) c.put_message.ensures)).1
