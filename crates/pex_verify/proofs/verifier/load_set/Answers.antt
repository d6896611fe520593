use Rattle.std.proofs.Common.{refl}
use Rattle.pex_verify.proofs.verifier.load_set.Goals as goal

pub returns-clause-loaded : goal.returns-clause-loaded
returns-clause-loaded c = record {
  loaded = record {
    set = c.in_ok-set.set;
    numbered = c.in_ok-set.ensures.numbered;
    heads = c.in_ok-set.ensures.heads;
    objects = c.in_ok-parts.ensures.objects;
    rooted = c.in_ok-set.ensures.rooted;
    meanings = c.in_ok-set.ensures.meanings;
    is_table = c.in_ok-set.ensures.table;
    same_table = refl;
  };
  types = c.in_ok-set.ensures.types;
}
