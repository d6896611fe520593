use Rattle.pex_tests.proofs.codec.with_user.Goals as goal

pub returns : goal.returns
returns c = record {
  minor = c.requires.minor;
  time = c.requires.time;
  debug = c.requires.debug;
  user_flags = c.requires.user_flags;
  objects = c.requires.objects;
}
