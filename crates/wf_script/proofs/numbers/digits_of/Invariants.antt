use Rattle.std.proofs.Common.{◌≡◌, ◌<◌, ◌^◌, take, true}
use Rattle.std.specs.List.{list_all}
use Rattle.wf_script.specs.Words.{digits_value, is_digit}
use Rattle.wf_script.proofs.numbers.digits_of.Given as goal

-- the digits so far and their value
abbrev pub invariant-loop-digit : goal.invariant-loop-digit
invariant-loop-digit l = record {
  value : l.value ≡ digits_value (take l.digit-index l.word);
  digits : list_all is_digit (take l.digit-index l.word) ≡ true;
  bound : l.value < 10 ^ l.digit-index;
}
