use Rattle.std.proofs.Common.{◌≡◌, map, take, vec_len}
use Rattle.command_files.specs.SourceTexts.{AreScriptsOf, text_of}
use Rattle.command_files.proofs.source_texts.sources_of.Given as goal

-- a script of each text so far
abbrev pub invariant-loop-place : goal.invariant-loop-place
invariant-loop-place l = record {
  each : vec_len l.files ≡ l.place;
  read : AreScriptsOf (map text_of (take l.place l.texts)) l.files.items;
}
