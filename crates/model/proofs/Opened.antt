-- For examples that compute: a proof that names `opened` on its `unfolding` line sees through every definition of the steps.
use Rattle.quorum.specs.Sets.{bits, count, every, some}
use Rattle.model.specs.Stamps.{rank, no_stamp, next_stamp}
use Rattle.model.specs.State.{without, fresh}
use Rattle.model.specs.Sound.{each_from, sets_within, messages_addressed, messages_recorded, readers_placed, sound}
use Rattle.model.specs.Records.{heard, lowered, marked}
use Rattle.model.specs.Deliveries.{to_all, on_offer, on_put_ack, on_query, on_have, on_back_ack, on_reply, on_fan, on_relay, on, received}
use Rattle.model.specs.Steps.{counted, write, read, deliver, dropped, duplicated, halt, done, tests, refusal, step}
use Rattle.model.specs.History.{run}

unfoldable pub opened : Unit {0}
unfolding bits count every some rank no_stamp next_stamp without fresh each_from sets_within messages_addressed messages_recorded readers_placed sound heard lowered marked to_all on_offer on_put_ack on_query on_have on_back_ack on_reply on_fan on_relay on received counted write read deliver dropped duplicated halt done tests refusal step run
opened = tt
