pub mod PutLemmas
pub mod RankLemmas
