pub mod Crumbs
