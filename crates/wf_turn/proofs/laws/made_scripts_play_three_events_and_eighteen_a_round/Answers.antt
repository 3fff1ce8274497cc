use Rattle.wf_turn.proofs.MadeScriptsPlayed.{made_plays}
use Rattle.wf_turn.proofs.laws.made_scripts_play_three_events_and_eighteen_a_round.Goals as goal

pub returns : goal.returns
returns c = made_plays
