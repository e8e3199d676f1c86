use Rattle.reading_laws.proofs.Reached.{led_is_reached}
use Rattle.reading_laws.proofs.asked_matches.led_is_reached.Goals as goal

pub returns : goal.returns
returns c = led_is_reached
