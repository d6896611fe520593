use Rattle.pex_lift.proofs.lifting.source_of.Goals as goal

pub returns : goal.returns
returns c = record {
  lines = c.in_ok-lines.lines;
  small = c.in_ok-lines.ensures.small;
  unbroken = c.in_ok-lines.ensures.unbroken;
  cut = c.in_ok-lines.ensures.cut;
  spelled = c.in_ok-lines.ensures.spelled;
  declared = c.in_ok-script.ensures.declared;
  words = c.in_ok-script.ensures.words;
}
